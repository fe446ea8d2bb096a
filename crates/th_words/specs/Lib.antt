pub mod Pieces
pub mod Table
pub mod Values
pub mod Reading
pub mod Told
