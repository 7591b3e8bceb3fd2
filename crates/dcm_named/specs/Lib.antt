pub mod Named
pub mod Filter
pub mod NamedSink
pub mod Naming
pub mod Laws
pub mod Found
pub mod Meta
