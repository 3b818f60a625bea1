pub mod Flaws
pub mod Faults
