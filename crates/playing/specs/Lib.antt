pub mod Playing
pub mod Channels
pub mod Lengths
