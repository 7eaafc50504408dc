pub mod Faults
pub mod Marking
pub mod Sides
