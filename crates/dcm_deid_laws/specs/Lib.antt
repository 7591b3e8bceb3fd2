pub mod Taken
pub mod Clean
pub mod Laws
