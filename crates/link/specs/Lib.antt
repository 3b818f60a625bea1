pub mod Programmed
pub mod OneLink
