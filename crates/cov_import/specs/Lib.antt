pub mod Serving
pub mod Sources
pub mod Taking
