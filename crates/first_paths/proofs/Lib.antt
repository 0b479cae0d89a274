pub mod Halves
pub mod FromRanks
pub mod Ranks
pub mod FirstInputs
pub mod Digits
pub mod Pairs
