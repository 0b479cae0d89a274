pub mod Shortcuts
pub mod Fields
pub mod Shapes
pub mod Binary
