pub mod Replaced
pub mod Decimals
pub mod Digests
pub mod NewUids
pub mod Pseudonyms
mod HmacRows
mod PatientRows
