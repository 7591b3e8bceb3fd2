-- What the machine is in after each byte.
pub mod StopsStay
pub mod AfterHeads
pub mod Values
pub mod Passing
pub mod AfterBytes
pub mod Follows
pub mod ReadsSome
pub mod Ascending
pub mod Finishes
