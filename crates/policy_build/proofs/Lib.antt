pub mod Suffixes
pub mod Placed
pub mod Digits
pub mod Names
pub mod Chains
pub mod Loops
pub mod Atoms
