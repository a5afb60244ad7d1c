pub mod Sbox
pub mod Skinny
pub mod Cases
pub mod Running
pub mod Inverse
pub mod Cell
pub mod Linear
pub mod Pairs
