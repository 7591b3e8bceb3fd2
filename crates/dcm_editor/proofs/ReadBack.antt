-- What is read of an input ascends, and is edited and written.
pub mod Rises
pub mod Ascends
pub mod IdentityBar
pub mod ReadsAscend
pub mod RecodeAnew
pub mod EditReads
pub mod BytesRead
