pub mod Each
pub mod Waves
