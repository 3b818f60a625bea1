pub mod Tests
pub mod Onward
pub mod Caps
pub mod Numbers
pub mod Lines
pub mod Whole
pub mod Pieces
pub mod One
