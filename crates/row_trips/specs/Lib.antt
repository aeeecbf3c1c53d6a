pub mod Marks
pub mod Trip
