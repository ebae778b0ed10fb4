-- The definitions of this crate.
pub mod Views
pub mod Accounts
pub mod Answers
pub mod Texts
pub mod Edits
pub mod Asked
pub mod Slots
pub mod Bare
pub mod Does
pub mod Places
