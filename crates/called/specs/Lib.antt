pub mod Calls
pub mod Linked
pub mod Marks
pub mod Found
pub mod Worklist
