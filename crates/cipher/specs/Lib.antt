pub mod Tweaks
pub mod Bench
