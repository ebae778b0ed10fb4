pub mod AloneLaws
pub mod DeedMaps
pub mod MergeLaws
pub mod OrderLaws
pub mod PlaceLaws
pub mod RunLaws
