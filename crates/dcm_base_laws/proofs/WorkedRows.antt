-- Worked rows of the definitions, one file a definition.
pub mod Readings
pub mod CutInputs
pub mod DeepNesting
pub mod Dumps
pub mod Conversions
pub mod Values
pub mod LineMeanings
pub mod Lines
pub mod Builds
pub mod Elements
pub mod Signs
pub mod UnknownSequences
