-- Bytes spell one data set, as far as it was read, and have one stop (PS3.5 7).
pub mod Heads
pub mod Whole
pub mod After
pub mod Alike
mod Apart
pub mod Fronts
pub mod OneAnswer
pub mod Sizes
pub mod Extend
pub mod Shown
pub mod Path
pub mod Levels
pub mod Row
pub mod Stops
pub mod Between
pub mod OwnSyntax
