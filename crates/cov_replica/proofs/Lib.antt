pub mod CallerLemmas
mod Counting
mod Damages
pub mod Faults
mod Judging
pub mod Pieces
mod Spelling
mod Steps
mod Taking
mod Telling
