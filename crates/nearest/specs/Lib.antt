pub mod Least
pub mod Nearest
pub mod Levels
