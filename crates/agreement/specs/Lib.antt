pub mod Agreement
pub mod Runs
