pub mod Rows
pub mod Memo
pub mod Working
pub mod Finding
pub mod Noting
pub mod Performing
