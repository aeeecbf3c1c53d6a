pub mod Defs
pub mod Whole
pub mod Unit
pub mod Upto
pub mod Bounds
