-- The edits as bits of a mask.
pub mod Found
pub mod Bits
pub mod Meaning
pub mod Answering
pub mod Editing
pub mod LeastNew
pub mod SoundSteps
pub mod Skips
pub mod Indexed
pub mod IndexGrows
