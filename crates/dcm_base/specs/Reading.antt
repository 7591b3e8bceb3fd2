-- What is read of a data set, and where and why reading stops.
pub mod Size
pub mod Place
pub mod Stop
pub mod Bars
pub mod Reads
