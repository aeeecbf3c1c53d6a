pub mod Params
pub mod Sizes
pub mod Sections
pub mod Laws
pub mod Examples
