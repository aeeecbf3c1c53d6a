pub mod Mixing
pub mod Laws
