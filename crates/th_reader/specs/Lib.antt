pub mod RawView
pub mod Reads
pub mod ClassParts
pub mod Passes
pub mod Content
pub mod Answer
