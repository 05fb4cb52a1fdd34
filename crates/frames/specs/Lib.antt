pub mod Arms
pub mod Laws
pub mod Naming
pub mod Passing
pub mod Strays
