pub mod Asked
pub mod Back
