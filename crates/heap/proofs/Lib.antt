pub mod Building
pub mod Creating
pub mod Conditions
pub mod LoggedLaws
pub mod UndoingLaws
pub mod Removing
