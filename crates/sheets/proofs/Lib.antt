pub mod Sweep
pub mod Lists
pub mod Bits
pub mod Frequency
pub mod Modem
