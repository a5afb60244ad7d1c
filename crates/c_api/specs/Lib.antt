pub mod Answers
pub mod Opens
pub mod Made
pub mod Ways
