pub mod Record
pub mod Made
pub mod Laws
