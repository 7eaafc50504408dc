pub mod CallerLemmas
pub mod DeviceLemmas
mod Examples
pub mod LineLemmas
pub mod WalkLemmas
