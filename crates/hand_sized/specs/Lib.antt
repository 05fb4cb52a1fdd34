pub mod Files
pub mod Joined
