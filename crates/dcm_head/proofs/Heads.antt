-- The head of an element, read and written (PS3.5 7.1.2, 7.1.3, 7.5).
pub mod Capitals
pub mod Explicit
pub mod Short
pub mod Reads
pub mod Laws
pub mod Written
pub mod Turned
