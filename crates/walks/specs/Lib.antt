pub mod Carried
pub mod Steps
pub mod Closed
pub mod Walk
pub mod Along
