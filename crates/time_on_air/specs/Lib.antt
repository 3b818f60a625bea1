pub mod Packet
pub mod Symbols
pub mod Lines
pub mod Report
pub mod Onward
pub mod Fields
pub mod FaultWords
