-- The definitions of this crate.
pub mod Forms
pub mod Refusals
pub mod Views
pub mod Workers
pub mod Changes
pub mod Grown
pub mod Externals
pub mod Ranges
pub mod Joined
pub mod Filling
