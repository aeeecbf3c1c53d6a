pub mod IdleTurn
