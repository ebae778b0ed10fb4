-- The definitions of this crate.
pub mod Steps
pub mod Trees
pub mod Outcomes
