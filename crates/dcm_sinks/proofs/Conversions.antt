-- The bytes that the encode sink writes.
pub mod Turned
pub mod Copies
pub mod Dropping
pub mod Wholes
pub mod EvenLengths
pub mod Values
pub mod DataSets
pub mod Reads
