pub mod Heads
pub mod MetaGroups
pub mod HeadReading
