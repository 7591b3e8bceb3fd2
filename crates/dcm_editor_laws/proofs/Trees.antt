-- What edits leave of data sets as trees.
pub mod Everywhere
pub mod Gone
pub mod Others
