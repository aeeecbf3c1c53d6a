pub mod Lengths
pub mod Padding
pub mod Marking
pub mod Choosing
pub mod Asked
pub mod Laying
pub mod Examples
