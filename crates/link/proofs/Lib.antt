pub mod Demand3
pub mod Contracts
pub mod One
