pub mod Conditional
pub mod Conjunction
pub mod Forms
pub mod Readers
pub mod Reading
pub mod RunLists
