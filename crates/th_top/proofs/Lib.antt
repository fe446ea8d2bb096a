pub mod Sent
pub mod Once
pub mod Verifying
pub mod Deciding
pub mod Scripts
pub mod Answering
pub mod Beginning
