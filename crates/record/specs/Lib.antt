pub mod Crc
pub mod Sector
