pub mod Parts
pub mod TreeWords
pub mod Trees
pub mod Plans
pub mod Pieces
pub mod Laws
