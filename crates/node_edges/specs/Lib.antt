-- The definitions of this crate.
pub mod Limits
pub mod Body
pub mod Falls
pub mod Text
pub mod Trees
pub mod Changes
pub mod Levels
pub mod Ways
pub mod Roots
