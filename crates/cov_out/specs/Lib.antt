pub mod InMemory
pub mod Rows
