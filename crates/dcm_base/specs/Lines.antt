-- What a file of lines means, and what it builds.
pub mod Limits
pub mod ReadValue
pub mod Line
pub mod Build
pub mod Ascending
