pub mod Words
pub mod Trees
pub mod ReadBack
pub mod Readers
