pub mod Judged
pub mod Kinds
pub mod Opcodes
pub mod Switches
pub mod Starts
pub mod Decoded
