-- The units of a value, their numbers and their order (PS3.5 7.3).
pub mod Reversals
pub mod Blocks
pub mod Numbers
pub mod Pieces
pub mod HighestFirst
pub mod Buffers
pub mod Woven
pub mod Decimals
pub mod NumberLists
pub mod InBlocks
