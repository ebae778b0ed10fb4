pub mod Appending
pub mod Consuming
pub mod Copies
pub mod Handing
pub mod Pieces
pub mod Taking
