mod Examples
pub mod Alone
pub mod Answering
pub mod CallerLemmas
pub mod Binding
pub mod Closing
pub mod Completed
pub mod Deciding
pub mod Fixing
pub mod Growing
pub mod Holding
pub mod Leaving
pub mod Narrowing
pub mod Planning
pub mod Renumbering
pub mod Unmet
