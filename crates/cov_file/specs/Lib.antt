pub mod Dated
pub mod Forward
pub mod Kept
pub mod Laws
pub mod Renumbered
pub mod Replaced
pub mod Rooms
pub mod Sights
