-- The definitions of this crate.
pub mod Limits
pub mod Holders
pub mod SoundBelow
pub mod Views
pub mod Steps
pub mod Worlds
pub mod MarkLaws
pub mod Bare
pub mod Runs
pub mod Lives
pub mod Paths
pub mod Marks
pub mod Search
pub mod TreeNode
pub mod Terms
