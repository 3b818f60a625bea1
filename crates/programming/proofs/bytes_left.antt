pub mod Codes
pub mod Own
