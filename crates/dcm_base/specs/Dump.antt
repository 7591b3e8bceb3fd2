-- The text of a value, of a data set, and of the header.
pub mod ValueText
pub mod Dump
pub mod Header
