-- Edits that overlap, and what edits that do not overlap ask of each other.
pub mod Paths
