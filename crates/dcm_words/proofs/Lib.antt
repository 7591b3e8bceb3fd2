pub mod WordLemmas
pub mod Limits
pub mod WordRows
pub mod ModifyWords
pub mod PathsApart
pub mod NamingLemmas
