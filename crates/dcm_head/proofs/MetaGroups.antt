-- A meta group begins the bytes at most once, and is written again element by element (PS3.10 7.1).
pub mod Places
pub mod Transfers
pub mod Elements
pub mod OneGroup
pub mod OneMeta
pub mod LastElement
pub mod FirstElement
pub mod Rewritten
