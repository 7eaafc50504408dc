pub mod EditConditions
pub mod Marks
pub mod Overtakers
pub mod Touches
