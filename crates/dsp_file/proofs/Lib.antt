pub mod Again
pub mod Asked
pub mod Held
