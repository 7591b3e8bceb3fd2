-- The searches in the dictionaries, what holds of their tables, and the order of tags.
pub mod TagOrder
pub mod ByNumber
pub mod Entries
pub mod Private
pub mod Sequences
pub mod Lines
pub mod Parts
pub mod Items
pub mod KeywordLengths
pub mod Search
