pub mod Setup
pub mod Modem
pub mod Power
pub mod Modes
pub mod Packets
pub mod Interrupts
pub mod Programming
pub mod Records
