-- A second run of dcmdeid writes what the first one wrote.
pub mod Alike
pub mod Puts
pub mod Fates
pub mod Left
pub mod Again
