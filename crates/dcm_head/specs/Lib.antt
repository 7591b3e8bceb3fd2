pub mod HeadRead
pub mod HeadBytes
pub mod GroupPlaces
pub mod MetaReading
pub mod MetaRuns
pub mod Rewriting
pub mod SyntaxUids
pub mod Laws
