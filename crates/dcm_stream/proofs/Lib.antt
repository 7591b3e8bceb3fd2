pub mod Heads
pub mod Containers
pub mod Steps
pub mod Runs
