pub mod Asking
pub mod Leading
