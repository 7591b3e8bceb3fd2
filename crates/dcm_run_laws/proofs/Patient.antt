-- Whom a file names, and where its first reading ends.
pub mod UpTo
pub mod Decided
pub mod AsFar
pub mod Outermost
