pub mod Promise
pub mod Texts
