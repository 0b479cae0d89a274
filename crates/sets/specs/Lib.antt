pub mod Binary
