-- The definitions of this crate.
pub mod Places
pub mod Stops
pub mod Readings
pub mod Sources
