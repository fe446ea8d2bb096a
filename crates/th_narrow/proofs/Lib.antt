pub mod Places
pub mod Making
pub mod Members
pub mod Stepping
pub mod Greatest
pub mod Rowing
pub mod Ordered
