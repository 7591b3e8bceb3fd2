-- Steps over lists in parts, and digits that go out.
pub mod Runs
pub mod HexDigits
