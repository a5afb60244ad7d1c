pub mod Parts
pub mod Mode
pub mod Permutes
pub mod Running
