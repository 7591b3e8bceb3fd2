pub mod Detour
pub mod Agree
pub mod Laws
