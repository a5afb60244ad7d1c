pub mod Says
pub mod Benches
