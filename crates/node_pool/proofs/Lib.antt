-- The lemmas of this crate.
pub mod Calling
pub mod Closing
pub mod Finishing
pub mod Gaining
pub mod Hiring
pub mod Marking
pub mod OwnSlots
pub mod PassTrees
pub mod Passing
pub mod Returning
pub mod Seats
pub mod Slicing
pub mod Starting
pub mod Takes
pub mod Walks
