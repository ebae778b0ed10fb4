-- The lemmas of this crate.
pub mod ExternalLaws
pub mod GainLaws
pub mod PieceLaws
