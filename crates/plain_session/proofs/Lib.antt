pub mod Repeats
pub mod Grows
pub mod Environments
pub mod Shows
