pub mod Lists
pub mod Kept
pub mod NameByName
pub mod Texts
pub mod Emptied
