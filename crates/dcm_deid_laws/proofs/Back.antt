-- Dates that are moved, moved back and moved again are what they were moved to at first.
pub mod Texts
pub mod Dates
pub mod Left
pub mod Framed
pub mod Bytes
pub mod Again
