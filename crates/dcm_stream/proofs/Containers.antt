-- The open containers, their ends and the room in them (PS3.5 7.5).
pub mod Full
pub mod Room
pub mod SignBytes
pub mod Signs
pub mod FragmentRow
pub mod Reversed
pub mod Rooms
pub mod Closes
pub mod Unfilled
