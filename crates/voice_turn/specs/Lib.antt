pub mod Played
pub mod Asks
pub mod Made
pub mod Laws
