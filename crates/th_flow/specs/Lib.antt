pub mod Flows
pub mod Inverted
