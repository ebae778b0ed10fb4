-- The lemmas of this crate.
pub mod Maps
pub mod Members
pub mod Counts
pub mod Same
pub mod Shuffles
pub mod Changes
