pub mod Answers
pub mod Counts
pub mod Keeping
pub mod Outcome
pub mod Turns
