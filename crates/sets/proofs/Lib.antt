pub mod Branches
pub mod Meets
pub mod Nodes
pub mod Opened
pub mod Pairs
pub mod Tested
