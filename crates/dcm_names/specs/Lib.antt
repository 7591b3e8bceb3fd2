pub mod Names
pub mod Held
pub mod NamedLines
pub mod Reader
pub mod Laws
