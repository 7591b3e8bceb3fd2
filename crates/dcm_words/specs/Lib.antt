pub mod Words
pub mod Plans
pub mod Tags
pub mod Naming
pub mod Topics
pub mod Places
pub mod PlacesAs
