pub mod Bytes
pub mod Fields
pub mod Words
pub mod Decimal
pub mod Hex
pub mod Text
pub mod Numbers
