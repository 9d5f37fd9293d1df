pub mod Fault
pub mod Meaning
pub mod Range
pub mod Serial
pub mod Snowflake
pub mod Time
