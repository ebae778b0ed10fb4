pub mod States
pub mod Edits
pub mod Commands
pub mod Needles
