pub mod Faults
pub mod Knows
pub mod Rules
