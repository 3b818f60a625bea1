pub mod Page
pub mod Links
pub mod Lora
pub mod Reading
