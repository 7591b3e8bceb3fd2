-- What a run wrote is read by another run.
pub mod DumpBuilds
pub mod ReadsAgain
pub mod DeidentifiedReads
pub mod OutputEdited
pub mod ModifiedTwice
pub mod OtherReaders
pub mod DeidentifiedTwice
pub mod ThereAndBack
