-- A file that is built, line by line.
pub mod OpenContainers
pub mod Shows
pub mod Meta
pub mod Steps
pub mod Lines
pub mod Runs
pub mod NoFaults
pub mod Depth
pub mod Checks
pub mod Calls
