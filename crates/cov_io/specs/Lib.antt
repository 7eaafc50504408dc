pub mod Devices
pub mod InMemory
pub mod Items
pub mod Progress
pub mod Walk
