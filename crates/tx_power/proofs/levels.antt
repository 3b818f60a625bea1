pub mod Whole
pub mod Clamped
pub mod Setting
