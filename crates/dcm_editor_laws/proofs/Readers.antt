-- What is written of an edited data set, read by another dictionary.
pub mod Opened
pub mod Bytes
pub mod NormalForms
pub mod Others
pub mod Renamed
pub mod WholeReads
pub mod Respelled
pub mod Hidden
pub mod Rows
