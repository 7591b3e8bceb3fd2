pub mod Names
pub mod Visits
pub mod Folder
pub mod List
