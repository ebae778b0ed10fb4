pub mod Buffers
pub mod Calls
pub mod Causes
pub mod Logs
pub mod Memories
pub mod Texts
