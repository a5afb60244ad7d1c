pub mod Answers
pub mod Blocks
pub mod Alpha
pub mod Places
