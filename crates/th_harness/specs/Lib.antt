pub mod Script
pub mod Asked
pub mod Worked
