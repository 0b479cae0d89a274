pub mod Inputs
pub mod FromRanks
pub mod Digits
pub mod Pairs
