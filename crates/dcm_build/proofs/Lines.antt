-- The lines of a dump, taken apart.
pub mod Fields
pub mod Parentheses
pub mod Steps
pub mod Forms
pub mod Newlines
pub mod Ends
pub mod Pieces
pub mod Spaces
pub mod Eights
