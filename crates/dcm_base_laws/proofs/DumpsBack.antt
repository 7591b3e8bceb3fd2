-- What a full dump shows means what it shows: lines and steps of building.
pub mod Fields
pub mod Displays
pub mod LineParts
pub mod LineMeanings
pub mod Steps
pub mod Losses
