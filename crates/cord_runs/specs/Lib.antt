-- The definitions of this crate.
pub mod Orders
pub mod Stamps
pub mod Runs
pub mod Alone
pub mod Kept
pub mod Scripts
pub mod Watching
pub mod Boxes
pub mod Samples
