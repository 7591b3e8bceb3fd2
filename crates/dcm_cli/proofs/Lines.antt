-- The lines on standard error, and the status.
pub mod Composed
pub mod Unplaced
pub mod FoundMasks
pub mod OneAfterAnother
