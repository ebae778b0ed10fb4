-- What the nodes of a tree add up to, and how a walk comes to it.
pub mod Sums
pub mod Tallies
