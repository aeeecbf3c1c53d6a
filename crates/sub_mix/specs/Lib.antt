pub mod SubMix
pub mod Laws
