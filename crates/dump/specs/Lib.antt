pub mod Characters
pub mod Text
pub mod Dump
pub mod Spot
pub mod Faults
