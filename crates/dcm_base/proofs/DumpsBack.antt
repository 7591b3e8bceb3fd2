-- What a full dump shows means what it shows: digits, numbers and values.
pub mod DigitNumbers
pub mod DigitSteps
pub mod Texts
pub mod Numbers
pub mod Parts
pub mod Values
