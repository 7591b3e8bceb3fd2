-- A machine and its sink over the pieces of an input.
pub mod Halts
pub mod Bounds
pub mod Parts
pub mod StaysSmall
pub mod Pieces
pub mod Calls
pub mod Inputs
pub mod Left
pub mod Skipped
pub mod Tokens
pub mod Wholes
pub mod Taking
