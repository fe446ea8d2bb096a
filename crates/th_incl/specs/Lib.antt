pub mod Least
pub mod View
pub mod Worked
pub mod Parts
pub mod Run
pub mod Kept
