pub mod CallerLemmas
mod Examples
mod Generated
mod Keeping
pub mod Moments
mod Tearing
