mod InTurn
mod Numbers
pub mod Unknown
