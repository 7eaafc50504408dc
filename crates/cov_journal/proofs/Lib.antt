pub mod Anew
pub mod Appending
pub mod CallerLemmas
mod Examples
pub mod Moments
mod Pinning
mod Reading
pub mod Records
pub mod Uniqueness
