-- What whole trees spell is read without fault.
pub mod Places
pub mod Left
pub mod Regions
pub mod NoFault
pub mod Reads
pub mod Free
pub mod Native
