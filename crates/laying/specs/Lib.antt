pub mod Lays
pub mod Marks
pub mod Copies
pub mod Heads
