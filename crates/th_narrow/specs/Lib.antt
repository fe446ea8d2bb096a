pub mod Kept
pub mod Made
pub mod Put
pub mod Rounds
pub mod Rows
