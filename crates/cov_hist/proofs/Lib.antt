pub mod Declared
pub mod Examples
pub mod Legal
pub mod Numbered
pub mod RunCounting
pub mod Staying
