-- The lemmas of this crate.
pub mod Acting
pub mod ChangedLaws
pub mod ExternalLaws
pub mod GivenBack
pub mod GrownLaws
pub mod Keeping
pub mod MadeLaws
pub mod SameCord
pub mod RangeLaws
