pub mod OnField
pub mod OnWords
pub mod Inverse
pub mod Loops
pub mod Computed
