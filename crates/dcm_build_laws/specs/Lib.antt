pub mod Undecided
pub mod DumpLines
pub mod StepsBuild
pub mod DumpBuilds
pub mod Laws
