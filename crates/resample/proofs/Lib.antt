pub mod Filling
pub mod Integers
pub mod Held
pub mod Level
pub mod HeldTable
