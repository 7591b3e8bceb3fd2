pub mod WorkedRows
pub mod DataSets
pub mod DumpsBack
pub mod Dictionaries
