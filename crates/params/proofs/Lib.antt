pub mod Determined
pub mod Addresses
