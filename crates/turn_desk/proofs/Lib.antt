-- The lemmas of this crate.
pub mod Closing
pub mod Keeps
pub mod Starting
