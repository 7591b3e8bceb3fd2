-- Data sets by the fates of their elements.
pub mod Again
pub mod Clean
pub mod Made
pub mod Kept
pub mod Said
pub mod Paired
pub mod Known
pub mod Instances
pub mod Vanished
pub mod Unnamed
