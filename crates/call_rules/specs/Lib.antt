pub mod Answers
pub mod Outcome
pub mod OnMemories
pub mod Added
pub mod Promise
pub mod Checking
pub mod Finishing
