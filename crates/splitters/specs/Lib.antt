pub mod Walk
pub mod Lists
pub mod Destinations
pub mod Section
pub mod Laws
