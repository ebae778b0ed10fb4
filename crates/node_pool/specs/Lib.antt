-- The definitions of this crate.
pub mod Answers
pub mod Boxes
pub mod Closes
pub mod Edits
pub mod Finishes
pub mod Passes
pub mod Paths
pub mod Refusals
pub mod Slices
pub mod Starts
pub mod Opened
pub mod Outlets
pub mod Tokens
