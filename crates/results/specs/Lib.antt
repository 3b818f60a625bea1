pub mod Results
pub mod Word
pub mod Boards
pub mod Exports
