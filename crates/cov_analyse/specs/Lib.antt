pub mod Analysing
pub mod Bounding
pub mod LeastNumbers
pub mod Nearest
pub mod Orders
pub mod States
pub mod Walking
