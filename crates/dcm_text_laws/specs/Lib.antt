pub mod Laws
pub mod Vanishing
pub mod Standing
pub mod Left
pub mod ShownLines
