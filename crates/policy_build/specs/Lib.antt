pub mod Items
pub mod Building
