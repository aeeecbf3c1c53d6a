pub mod Way
pub mod Listing
