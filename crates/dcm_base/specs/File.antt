-- The head of a file: preamble, prefix and meta group (PS3.10 7.1).
pub mod MetaGroup
pub mod MetaReads
