pub mod Alone
pub mod Scaling
