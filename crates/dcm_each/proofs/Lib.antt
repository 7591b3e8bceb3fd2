pub mod Names
pub mod Mapped
pub mod InMemory
pub mod ListGiven
