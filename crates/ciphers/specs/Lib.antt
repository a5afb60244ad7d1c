pub mod Ciphers
pub mod Inverse
