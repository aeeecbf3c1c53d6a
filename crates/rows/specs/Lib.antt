pub mod Rows
pub mod Lent
pub mod Folds
pub mod Loops
pub mod Tables
