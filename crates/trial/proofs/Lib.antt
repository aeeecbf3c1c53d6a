pub mod Trial
pub mod Trying
pub mod Keeping
