pub mod Refusals
pub mod Modes
