pub mod Graphs
pub mod Joined
pub mod Produced
pub mod Searching
pub mod Stores
pub mod Tables
