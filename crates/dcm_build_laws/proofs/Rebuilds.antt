-- A full dump builds its file again.
pub mod DumpLines
pub mod StepsBuild
pub mod LinesLead
pub mod Unmarked
pub mod MetaBuilds
pub mod DumpBuilds
pub mod FilesBuild
