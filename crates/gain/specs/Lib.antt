pub mod Gain
pub mod Laws
pub mod Same
pub mod Still
pub mod Examples
