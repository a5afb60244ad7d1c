pub mod Repeats
pub mod Steps
