pub mod Placing
pub mod Plain
pub mod Refusing
pub mod Standing
