pub mod Opened
pub mod Parts
pub mod Sections
pub mod Writing
pub mod Laws
pub mod Whole
pub mod Written
