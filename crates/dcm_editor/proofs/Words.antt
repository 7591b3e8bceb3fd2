-- The edits that words mean.
pub mod MeantEdits
