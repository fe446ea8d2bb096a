pub mod Effects
pub mod Systems
pub mod Told
pub mod Transitive
pub mod Kept
