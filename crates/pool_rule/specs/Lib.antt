-- The definitions of this crate.
pub mod Limits
pub mod Notes
pub mod Views
pub mod Rules
pub mod Pools
pub mod Plays
pub mod Steps
pub mod Trades
pub mod Marks
pub mod EdgeMarks
pub mod Ends
pub mod Gains
