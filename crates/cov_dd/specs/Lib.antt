pub mod Cofactors
pub mod Combinations
pub mod Diagrams
pub mod Marks
pub mod Memos
pub mod Reached
pub mod Sweeps
