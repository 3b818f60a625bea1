pub mod SoFar
pub mod Least
