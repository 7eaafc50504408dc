pub mod Holding
pub mod Laws
pub mod Origins
pub mod Past
pub mod RunCounts
