pub mod Deciding
pub mod Decide
pub mod Fitting
pub mod Rooms
pub mod Both
pub mod Whole
pub mod Reindexing
