pub mod Log
pub mod Notes
pub mod Steps
pub mod Views
pub mod World
