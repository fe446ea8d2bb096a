pub mod TwosComplement
pub mod Arithmetic
pub mod Carries
