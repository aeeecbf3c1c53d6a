pub mod FromFn
pub mod Zeros
