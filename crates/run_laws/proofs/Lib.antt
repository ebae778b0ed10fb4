pub mod Names
pub mod FitCords
pub mod FitSteps
pub mod Counts
pub mod ReadableRuns
pub mod ByteLaws
pub mod ShortLaws
pub mod TreeLaws
