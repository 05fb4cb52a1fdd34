pub mod Valuing
pub mod Carrying
