pub mod Modification
pub mod Everywhere
pub mod Others
pub mod Repeating
pub mod Readers
pub mod Laws
