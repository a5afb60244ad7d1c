pub mod Digits
pub mod Cuts
pub mod Listing
pub mod Hexes
