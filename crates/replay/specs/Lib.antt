pub mod Numbers
pub mod Lending
pub mod Showing
