pub mod Finding
pub mod Naming
pub mod Peeking
pub mod Ranges
