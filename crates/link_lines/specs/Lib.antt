pub mod Lines
pub mod Numbers
pub mod Frequencies
pub mod Board
pub mod FrequencyLines
pub mod PowerLines
