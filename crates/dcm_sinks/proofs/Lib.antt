pub mod Dumps
pub mod Conversions
pub mod ReadBack
pub mod DecodedDumps
