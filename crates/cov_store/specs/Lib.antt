pub mod Appending
pub mod Applying
pub mod Damages
pub mod Laws
pub mod Opening
pub mod Replaying
pub mod Stands
