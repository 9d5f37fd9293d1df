pub mod Fills
pub mod Rests
pub mod Stopped
