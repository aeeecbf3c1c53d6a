pub mod Frames
pub mod Laws
