-- The edits that words mean.
pub mod EditWordLemmas
pub mod Cuts
pub mod IndexNumbers
pub mod ManyParts
pub mod KnownParts
pub mod Steps
pub mod SettingWords
pub mod Makings
pub mod Forms
pub mod ManyEdits
pub mod EditCount
pub mod WordIndexes
pub mod WordDepths
pub mod WordValues
