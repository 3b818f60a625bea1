pub mod Access
pub mod Steps
pub mod Call
pub mod Lent
