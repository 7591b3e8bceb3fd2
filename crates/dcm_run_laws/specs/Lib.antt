pub mod DumpBuilds
pub mod NoEdits
pub mod Flows
pub mod FirstLaws
pub mod ReadsAgain
pub mod Laws
