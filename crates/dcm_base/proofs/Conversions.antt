-- Values in the order of a syntax, and the normal form of what is converted (PS3.5 7.3).
pub mod UnitLaws
pub mod OrderLaws
pub mod Order
pub mod NormalForm
