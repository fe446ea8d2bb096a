pub mod Paths
pub mod Links
pub mod Search
pub mod Worked
