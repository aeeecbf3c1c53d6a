pub mod Items
pub mod Flat
pub mod Demand
