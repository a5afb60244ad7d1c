pub mod Field
pub mod Aes
pub mod Words
pub mod Walk
