pub mod Asks
pub mod Emptying
pub mod Endings
pub mod Parts
pub mod Feeding
pub mod Telling
pub mod Causes
