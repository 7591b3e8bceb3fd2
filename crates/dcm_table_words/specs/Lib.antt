pub mod Table
pub mod Usages
pub mod Columns
pub mod Said
pub mod Plans
