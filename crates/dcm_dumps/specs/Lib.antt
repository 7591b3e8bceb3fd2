pub mod Words
pub mod Plans
pub mod Heading
pub mod Dumps
pub mod Work
pub mod DumpsProgram
pub mod DumpsInMemory
pub mod Laws
