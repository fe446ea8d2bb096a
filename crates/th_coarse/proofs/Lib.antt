pub mod Alarming
pub mod Growing
pub mod Joining
pub mod Judging
pub mod Listed
pub mod Members
pub mod Resolving
