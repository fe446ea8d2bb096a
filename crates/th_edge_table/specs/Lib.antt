pub mod Encoding
pub mod Core
pub mod Facts
pub mod Running
pub mod Places
pub mod Replay
