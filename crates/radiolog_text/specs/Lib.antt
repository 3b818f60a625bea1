pub mod RefusalLines
pub mod LogLines
pub mod CommandWords
pub mod CommandLines
pub mod Faults
