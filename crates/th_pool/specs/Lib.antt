pub mod PoolView
pub mod Gives
pub mod First
pub mod Shapes
pub mod Types
pub mod Params
pub mod Texts
pub mod Members
