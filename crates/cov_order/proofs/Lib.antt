pub mod CallerLemmas
pub mod Newest
pub mod Paging
pub mod Places
pub mod Room
pub mod Sequences
