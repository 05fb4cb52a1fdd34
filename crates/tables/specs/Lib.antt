pub mod TablePlaces
pub mod Window
pub mod Rows
pub mod Filled
pub mod Starts
pub mod Walks
