pub mod Words
pub mod Overlapping
pub mod Trees
pub mod Masks
pub mod EditSinks
pub mod ReadBack
