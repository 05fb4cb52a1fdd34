pub mod Stages
pub mod Answer
pub mod Front
