pub mod Lines
pub mod Decimal
pub mod Listing
pub mod Reading
pub mod Writing
