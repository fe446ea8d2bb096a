pub mod Orders
pub mod Places
pub mod Offered
pub mod Stages
pub mod Complete
pub mod Tables
pub mod Traced
pub mod Rows
