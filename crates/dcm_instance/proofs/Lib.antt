pub mod HeldValues
pub mod Steps
pub mod Inside
pub mod InTrees
pub mod Sets
pub mod Files
pub mod Readings
