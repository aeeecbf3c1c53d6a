pub mod StateVoices
pub mod Made
pub mod Rows
pub mod Keeps
pub mod Shapes
pub mod Begins
