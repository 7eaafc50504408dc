pub mod Replaced
pub mod Sights
pub mod Values
