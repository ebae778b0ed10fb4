pub mod Ends
pub mod HistoryLaws
pub mod Turns
