pub mod Headings
pub mod Texts
pub mod Shows
pub mod WorkDumps
pub mod TextsAlike
pub mod DumpsMemory
pub mod DumpsLeft
pub mod OneDump
