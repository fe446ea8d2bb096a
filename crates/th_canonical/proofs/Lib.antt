pub mod Ranging
pub mod Turning
pub mod Restoring
pub mod Holding
pub mod Pairing
pub mod Knowing
