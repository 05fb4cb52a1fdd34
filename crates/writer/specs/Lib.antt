pub mod Laid
pub mod Ready
pub mod Leads
pub mod Skips
pub mod Whole
pub mod Trees
