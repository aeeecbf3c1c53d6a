pub mod Pieces
pub mod ByAddress
pub mod Bytes
pub mod Direct
pub mod One
pub mod Gathering
pub mod Examples
