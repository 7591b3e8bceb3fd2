-- What is written of an edited data set is read again.
pub mod StaysReady
pub mod Plain
pub mod EditedReads
pub mod TwiceDone
pub mod TwiceKept
pub mod TwiceWritten
pub mod RisingReads
pub mod EditedAscends
pub mod EditedAgain
pub mod BytesKept
pub mod EditedBytes
