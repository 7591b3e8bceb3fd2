-- A data set in another transfer syntax, and the meta group that names it.
pub mod Recode
pub mod NewMeta
pub mod Normal
