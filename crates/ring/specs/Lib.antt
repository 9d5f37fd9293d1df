pub mod Faults
pub mod Left
pub mod Operations
pub mod Ring
pub mod Runs
pub mod Search
pub mod Token
