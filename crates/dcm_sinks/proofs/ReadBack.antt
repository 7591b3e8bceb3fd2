-- What a conversion writes is read again.
pub mod Shallow
pub mod IsRead
pub mod HasRoom
pub mod Written
pub mod KnownEnds
pub mod WrittenRead
pub mod Accepted
pub mod Sources
pub mod RecodeReads
pub mod NewMetaReads
pub mod GroupEnds
