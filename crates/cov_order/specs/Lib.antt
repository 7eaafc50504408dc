pub mod Hashing
pub mod Laws
pub mod Orders
pub mod Pages
