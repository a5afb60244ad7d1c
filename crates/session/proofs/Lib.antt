pub mod Keeping
pub mod Laws
pub mod Due
