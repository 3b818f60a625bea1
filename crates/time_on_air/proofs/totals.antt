pub mod Hertz
