-- The reading of a file's head in pieces.
pub mod GoesOn
pub mod Stays
pub mod MoreBytes
pub mod State
pub mod Answers
pub mod Halts
pub mod Runs
