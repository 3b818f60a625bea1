pub mod Turn
pub mod Begun
