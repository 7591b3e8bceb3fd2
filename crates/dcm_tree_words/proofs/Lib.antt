mod PartNumbers
mod Sayings
mod TreeRows
mod NoText
