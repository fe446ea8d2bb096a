pub mod Division
pub mod Range
pub mod Widths
