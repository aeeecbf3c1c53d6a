pub mod Reads
pub mod Alike
