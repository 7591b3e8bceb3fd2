-- Bytes that go out in parts.
pub mod Puts
pub mod PartsOut
