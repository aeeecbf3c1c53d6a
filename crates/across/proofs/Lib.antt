pub mod Lying
pub mod SameBytes
pub mod Near
