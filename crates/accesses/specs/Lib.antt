pub mod Ranged
pub mod Gathering
pub mod Matching
pub mod Parameters
pub mod Accesses
pub mod Fitting
pub mod Noting
