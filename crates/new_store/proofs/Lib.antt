pub mod Writing
pub mod Creating
