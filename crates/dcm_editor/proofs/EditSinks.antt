-- The edit sink over the atoms of a data set.
pub mod Unbounded
pub mod Shown
pub mod Runs
pub mod Passes
pub mod Bounds
pub mod Rooms
pub mod Law
pub mod Bars
pub mod DrivesEdits
pub mod Through
pub mod Taken
pub mod Passing
pub mod ThroughSink
pub mod Unmet
pub mod Whole
pub mod ByToken
pub mod Free
