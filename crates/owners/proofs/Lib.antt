mod Filling
mod Testing
mod Giving
