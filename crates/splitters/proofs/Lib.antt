pub mod Stores
pub mod Stride
