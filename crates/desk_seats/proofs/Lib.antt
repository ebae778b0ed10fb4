pub mod Clearing
pub mod NewSeats
