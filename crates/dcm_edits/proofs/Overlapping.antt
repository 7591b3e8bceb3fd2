-- Edits that overlap, and what edits that do not overlap ask of each other.
pub mod Places
pub mod Items
pub mod Rows
pub mod Meetings
pub mod First
