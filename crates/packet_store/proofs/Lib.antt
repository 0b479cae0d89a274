-- What is known of an answer.
pub mod TextOffsets
