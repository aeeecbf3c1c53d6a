pub mod Render
pub mod Laws
pub mod Rooms
pub mod FromWhole
