pub mod Assembled
pub mod Little
pub mod ReadBack
pub mod Register
