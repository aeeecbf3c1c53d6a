pub mod Defs
pub mod Laws
pub mod Exact
pub mod InStep
pub mod Near
pub mod Range
