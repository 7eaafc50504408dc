pub mod CallerLemmas
pub mod Keeping
pub mod Taking
pub mod Valued
