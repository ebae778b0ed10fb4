-- The definitions of this crate.
pub mod Externals
pub mod Pieces
