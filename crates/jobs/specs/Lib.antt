pub mod Operations
pub mod Jobs
pub mod ByValue
pub mod Packed
