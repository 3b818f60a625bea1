pub mod Operations
pub mod Arguments
pub mod Records
