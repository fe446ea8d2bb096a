pub mod Fronts
pub mod Growing
pub mod Lines
pub mod Reading
pub mod Once
pub mod OnceScripted
