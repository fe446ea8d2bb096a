pub mod Counts
pub mod Crossing
pub mod Ordered
pub mod Refusing
pub mod Joining
pub mod Once
