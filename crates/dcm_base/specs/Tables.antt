-- The numbers of the standard, and its tables (PS3.5 6.2, PS3.6).
pub mod Number
pub mod Tag
pub mod Spread
pub mod Representation
pub mod Dictionary
pub mod Syntax
pub mod Uid
pub mod Transfer
pub mod Fault
