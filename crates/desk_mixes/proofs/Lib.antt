pub mod MixRow
pub mod Summing
