pub mod Copying
pub mod Filling
