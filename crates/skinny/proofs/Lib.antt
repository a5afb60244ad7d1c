pub mod Moved
pub mod Loops
pub mod TwoRounds
