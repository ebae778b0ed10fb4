-- The lemmas of this crate.
pub mod GainLaws
pub mod ListLaws
pub mod MadeLaws
pub mod OpenLaws
pub mod GrowLaws
pub mod AddLaws
pub mod WidthLaws
pub mod LoneLaws
