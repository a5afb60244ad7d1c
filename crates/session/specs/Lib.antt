pub mod Answers
pub mod States
pub mod Commanded
pub mod Lines
pub mod History
