pub mod Look
pub mod Tests
