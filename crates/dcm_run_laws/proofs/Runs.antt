-- Two runs beside each other.
pub mod NoEdits
pub mod NothingFlows
pub mod FirstLaws
pub mod SureFirst
