-- A value from the text that shows it.
pub mod DigitTable
pub mod Parts
pub mod Texts
pub mod Units
pub mod PlainTexts
pub mod HexDigits
pub mod Values
