pub mod Signed16
pub mod Known
