pub mod Cleared
pub mod Fresh
