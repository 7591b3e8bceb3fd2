pub mod Halts
pub mod Rebuilds
