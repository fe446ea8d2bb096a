pub mod Digits
pub mod Lines
pub mod Names
pub mod Ranges
pub mod Cuts
pub mod Growth
