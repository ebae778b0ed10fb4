-- The definitions of this crate.
pub mod Forest
pub mod Limits
pub mod Label
pub mod Members
pub mod Counts
pub mod Codes
pub mod Sides
pub mod Paths
pub mod Changes
