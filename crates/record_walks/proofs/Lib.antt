-- The lemmas of this crate.
pub mod FreedLaws
pub mod ReadLaws
pub mod WalkLaws
