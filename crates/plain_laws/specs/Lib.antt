pub mod Targets
pub mod Refusals
pub mod Appends
pub mod Lines
pub mod Actions
pub mod Moments
pub mod Replays
pub mod Sums
