pub mod Framing
pub mod Inputs
