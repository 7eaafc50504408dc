pub mod Below
pub mod Branching
pub mod CallerLemmas
pub mod Entries
mod Examples
pub mod Members
pub mod NodeTests
pub mod OneListing
pub mod Places
pub mod Reading
pub mod Testing
pub mod Visited
pub mod Walking
