pub mod Erase
pub mod Example
pub mod Lock
pub mod Ready
pub mod Strip
pub mod Turn
