pub mod Boards
pub mod Words
