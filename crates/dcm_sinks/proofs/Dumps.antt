-- The lines that the dump sink writes.
pub mod LineParts
pub mod ValueBytes
pub mod OpenValues
pub mod PassedOver
pub mod Brackets
pub mod ValueLines
pub mod ValueRuns
pub mod WholeLines
pub mod OpenLists
pub mod DataSets
pub mod MetaLines
pub mod Reads
pub mod ShortLines
pub mod WrittenLines
