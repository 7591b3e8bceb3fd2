pub mod Years
pub mod Numbers
pub mod Places
pub mod Dates
pub mod Parts
pub mod Digits
pub mod Calculated
pub mod Later
pub mod Joined
pub mod Texts
mod DateRows
