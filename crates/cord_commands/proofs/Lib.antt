-- The lemmas of this crate.
pub mod Steady
pub mod Behind
pub mod Renaming
pub mod Spelling
pub mod Stepping
pub mod Comings
pub mod Doing
pub mod Refused
pub mod Edited
pub mod EditLaws
pub mod Absent
pub mod Placing
pub mod Joins
pub mod Slotted
pub mod Questions
pub mod Externals
