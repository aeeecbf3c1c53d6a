pub mod Mixes
pub mod Offsets
pub mod MixLaws
