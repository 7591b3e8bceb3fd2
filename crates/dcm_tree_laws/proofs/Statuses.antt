pub mod Going
pub mod Says
