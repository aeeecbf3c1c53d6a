pub mod Fields
pub mod Reads
pub mod Sections
pub mod Writes
