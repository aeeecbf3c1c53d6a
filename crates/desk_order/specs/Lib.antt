pub mod DeskOrder
pub mod Laws
pub mod Listed
pub mod Examples
