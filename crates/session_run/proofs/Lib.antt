pub mod Printed
pub mod Running
pub mod Turning
pub mod Opening
pub mod Fitting
