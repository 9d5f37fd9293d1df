pub mod Asked
pub mod Layers
