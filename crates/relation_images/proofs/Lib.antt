pub mod AtEnds
pub mod Filtering
pub mod Moving
