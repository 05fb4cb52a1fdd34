pub mod WholeRun
pub mod Theorem
