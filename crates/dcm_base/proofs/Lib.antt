pub mod DataSets
pub mod DumpsBack
pub mod Conversions
pub mod Writes
pub mod Dictionaries
pub mod Letters
pub mod Spreads
