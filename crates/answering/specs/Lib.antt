pub mod Annotated
pub mod Ran
