pub mod Widths
pub mod Put
pub mod Digits
pub mod Signed
pub mod Answers
