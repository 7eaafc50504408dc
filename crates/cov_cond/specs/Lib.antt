pub mod Building
pub mod Committing
pub mod Exporting
pub mod Fitting
pub mod IfLines
pub mod Importing
pub mod Laws
pub mod Writing
