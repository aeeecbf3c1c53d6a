pub mod Source
pub mod Attempt
pub mod Rounds
pub mod Laws
pub mod Fits
pub mod Fetch
pub mod Example
