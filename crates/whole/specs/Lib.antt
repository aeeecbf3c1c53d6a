pub mod Counts
pub mod Lent
pub mod Whole
pub mod Examples
