-- The lines that the sink of texts by characters writes.
pub mod Forces
pub mod Texts
pub mod TextBytes
pub mod TextLines
pub mod Pairs
pub mod PassedOver
pub mod TextRuns
pub mod Settings
pub mod DataSets
pub mod UnknownTold
pub mod Reads
pub mod Characters
pub mod MetaLines
pub mod PlainTexts
