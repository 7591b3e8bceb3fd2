pub mod Uids
pub mod UidSink
pub mod Searching
pub mod ReadInstance
pub mod Same
pub mod Laws
