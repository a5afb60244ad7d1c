pub mod Shapes
pub mod Memory
pub mod Calls
pub mod Refused
pub mod Runs
