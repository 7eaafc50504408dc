pub mod Completion
pub mod Growth
pub mod Installing
pub mod Lefts
pub mod Refusals
pub mod Renumbered
