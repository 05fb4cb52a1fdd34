pub mod Stages
pub mod Tabled
