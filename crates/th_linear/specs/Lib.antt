pub mod Forms
pub mod Normal
pub mod Divided
pub mod Mixed
pub mod Summed
pub mod Judged
pub mod Gathered
pub mod Laws
