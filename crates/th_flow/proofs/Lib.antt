pub mod Rows
pub mod Listed
pub mod Upward
pub mod Merging
