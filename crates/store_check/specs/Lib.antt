pub mod Memory
pub mod Valid
pub mod StoreChecking
pub mod Commit
pub mod Reindexing
