pub mod Chunks
pub mod Clears
pub mod Meanings
pub mod Zeros
