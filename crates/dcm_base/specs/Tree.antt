-- A data set as trees of elements, whole, or as far as it was read (PS3.5 7.1, 7.5).
pub mod Tree
pub mod Front
pub mod Value
