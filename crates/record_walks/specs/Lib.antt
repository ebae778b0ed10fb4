pub mod Ends
pub mod Reports
pub mod Walks
pub mod Works
