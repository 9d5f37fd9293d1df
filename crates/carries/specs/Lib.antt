pub mod Stops
pub mod Texts
