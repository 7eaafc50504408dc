pub mod Asked
pub mod Keeping
pub mod Refusing
