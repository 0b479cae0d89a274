pub mod Opened
pub mod Matrices
