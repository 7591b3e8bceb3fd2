-- A whole run, on any devices.
pub mod Ran
pub mod Finished
pub mod LinesGrow
pub mod Sure
pub mod OneSource
pub mod OneFirst
pub mod OneAnswer
pub mod OneRemark
pub mod Stopping
pub mod InMemory
pub mod Texts
pub mod Obeying
pub mod OpenedMemory
pub mod LeftMemory
pub mod WholeMemory
pub mod ObeyingMemory
