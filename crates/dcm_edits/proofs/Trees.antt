-- Edits of data sets as trees, one after another and all at once.
pub mod Laws
pub mod OneByOne
pub mod FrontEdits
pub mod OneByOneFront
pub mod Rows
pub mod Selection
pub mod NewOnes
pub mod Kept
pub mod MadeSequences
pub mod FirstOnes
pub mod Depths
