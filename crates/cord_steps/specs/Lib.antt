-- The definitions of this crate.
pub mod Cords
pub mod Answers
pub mod Replies
pub mod Sessions
pub mod Doings
pub mod Marks
pub mod Boarding
pub mod Steps
pub mod Causes
pub mod Runs
pub mod Samples
pub mod Whole
pub mod Notes
