pub mod Journal
pub mod Moments
pub mod Places
pub mod Reading
pub mod Gates
pub mod Laws
