-- The definitions of this crate.
pub mod Shape
pub mod Capacity
pub mod Growth
pub mod Room
pub mod Pieces
pub mod Flats
pub mod Nodes
pub mod Merge
pub mod Keep
pub mod Filling
pub mod Sums
pub mod Cords
