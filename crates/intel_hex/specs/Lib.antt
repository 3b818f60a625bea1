pub mod Record
pub mod Places
pub mod Faults
pub mod Texts
pub mod Layout
pub mod Calls
pub mod Reading
pub mod FaultWords
