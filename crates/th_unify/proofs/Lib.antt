pub mod Items
pub mod Narrowed
pub mod Tables
