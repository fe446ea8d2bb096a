pub mod Fetching
pub mod Listing
pub mod Input
pub mod Scripted
