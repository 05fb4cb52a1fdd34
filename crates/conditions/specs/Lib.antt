pub mod Inside
pub mod Standing
pub mod Without
