pub mod Deeds
pub mod Histories
pub mod Laws
pub mod Log
pub mod Passes
pub mod Rule
pub mod Voices
pub mod Views
