pub mod Words
pub mod Overlapping
pub mod Trees
