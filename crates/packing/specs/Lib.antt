pub mod Packed
pub mod Returns
