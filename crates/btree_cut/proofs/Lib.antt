-- The lemmas of this crate.
pub mod RangeLaws
pub mod PieceLaws
pub mod CutLaws
pub mod MadeLaws
pub mod LowLaws
pub mod WholeLaws
pub mod RootLaws
