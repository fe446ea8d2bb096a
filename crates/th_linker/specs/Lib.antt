pub mod Checking
pub mod Linkable
pub mod Sites
pub mod Named
