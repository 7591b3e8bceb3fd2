-- Edits of data sets as trees, one after another and all at once.
pub mod SoFar
pub mod Fronts
pub mod DepthAtoms
pub mod NewRows
