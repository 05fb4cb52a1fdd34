pub mod Chains
pub mod Reached
