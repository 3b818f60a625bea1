pub mod Errors
pub mod LineFaults
pub mod HexFaults
pub mod Answers
pub mod Addresses
pub mod Values
pub mod Flags
