pub mod Cascade
pub mod Undone
