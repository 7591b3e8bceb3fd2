-- What the edits that words mean make can be written and read.
pub mod KnownTags
pub mod WordsReady
pub mod WordBytes
