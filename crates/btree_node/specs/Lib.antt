-- The definitions of this crate.
pub mod Made
pub mod Opening
pub mod Adding
pub mod Lone
