pub mod Sayings
pub mod Columns
