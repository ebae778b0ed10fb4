-- The lemmas of this crate.
pub mod Balance
pub mod Counting
pub mod EndLaws
pub mod StampLaws
pub mod Totals
pub mod Walkers
