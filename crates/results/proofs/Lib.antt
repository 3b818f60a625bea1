pub mod Exported
pub mod Placed
