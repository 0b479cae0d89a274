pub mod BuiltTexts
pub mod Readings
