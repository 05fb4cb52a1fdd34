pub mod Arguments
pub mod Settings
pub mod Procedures
