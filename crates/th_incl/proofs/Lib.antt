pub mod Members
pub mod Through
pub mod Counts
pub mod Steps
pub mod Rounds
pub mod Families
pub mod Added
pub mod Small
