pub mod AllReached
pub mod Before
pub mod Stripped
