-- The lemmas of this crate.
pub mod Capacities
pub mod ShapeLaws
pub mod GrowthLaws
pub mod RoomLaws
pub mod PieceLaws
pub mod NodeLaws
pub mod PartLaws
pub mod FlatLaws
pub mod MergeLaws
pub mod KeepLaws
pub mod RangeLaws
pub mod FillLaws
pub mod HeightLaws
pub mod CordLaws
