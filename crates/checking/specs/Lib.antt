pub mod Checker
pub mod Carried
pub mod Sound
pub mod Rules
pub mod Ready
pub mod Procedures
pub mod Answer
