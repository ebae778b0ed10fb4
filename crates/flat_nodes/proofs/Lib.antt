-- The lemmas of this crate.
pub mod Flats
pub mod Behind
