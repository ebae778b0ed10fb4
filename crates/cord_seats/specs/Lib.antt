-- What is true of sessions on cords.
pub mod Boxes
pub mod Causes
pub mod Chairs
pub mod Clearings
pub mod Entries
pub mod Peeks
pub mod Seats
pub mod Told
pub mod Working
