pub mod Accepting
pub mod Feeding
pub mod Laws
pub mod Reading
pub mod Taken
