pub mod Hearing
pub mod Laws
