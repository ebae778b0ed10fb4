-- The definitions of this crate.
pub mod Limits
pub mod Contents
pub mod History
pub mod Inside
pub mod Legal
pub mod Links
pub mod Queue
pub mod Times
pub mod Walks
