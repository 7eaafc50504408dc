pub mod Counting
pub mod Decisions
pub mod Laws
pub mod Listings
pub mod Visiting
