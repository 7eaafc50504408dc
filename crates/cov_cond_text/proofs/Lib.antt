mod Examples
pub mod CallerLemmas
pub mod Fitting
pub mod Joining
pub mod Projecting
pub mod ReadLines
pub mod ReadSteps
pub mod RunLists
pub mod Runs
pub mod Words
