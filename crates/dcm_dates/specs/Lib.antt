pub mod Calendar
pub mod Numbered
pub mod DateText
pub mod Moved
pub mod Laws
