pub mod Coarse
pub mod Report
pub mod Safety
pub mod Worked
