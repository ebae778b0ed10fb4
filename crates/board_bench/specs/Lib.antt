pub mod Crowds
