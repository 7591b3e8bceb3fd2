pub mod ReadBack
pub mod Runs
pub mod Patient
