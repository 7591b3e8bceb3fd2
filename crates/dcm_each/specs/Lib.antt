pub mod Each
pub mod InMemory
