-- The definitions of this crate.
pub mod Views
pub mod Forms
pub mod Answers
pub mod Texts
pub mod Slots
pub mod Accounts
pub mod Leaving
pub mod Setting
pub mod Notes
pub mod Desk
pub mod Does
