-- The definitions of this crate.
pub mod Agreements
pub mod Passes
pub mod Spots
pub mod Steps
pub mod Table
pub mod Turns
