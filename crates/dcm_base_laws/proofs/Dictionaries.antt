-- No two elements have the same keyword.
pub mod Unique
