pub mod Tests
pub mod Parted
pub mod Parts
