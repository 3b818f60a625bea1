pub mod Ranges
pub mod Whole
