pub mod Below
pub mod Words
pub mod Sums
pub mod Powers
pub mod Sixteen
pub mod OnBytes
pub mod Writes
