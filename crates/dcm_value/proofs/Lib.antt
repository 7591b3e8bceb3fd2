pub mod Displays
pub mod UnitOrder
pub mod ReadBack
