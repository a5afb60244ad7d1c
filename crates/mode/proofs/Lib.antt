pub mod Layers
pub mod Partition
pub mod Core
pub mod Whole
pub mod Passes
pub mod Ends
pub mod Agree
