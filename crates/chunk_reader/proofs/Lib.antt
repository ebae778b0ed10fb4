-- The lemmas of this crate.
pub mod PlaceLaws
pub mod RestLaws
pub mod StopLaws
pub mod WayLaws
pub mod DescentLaws
pub mod GoLaws
pub mod ReadLaws
