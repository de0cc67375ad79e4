pub mod Blocking
pub mod Passing
pub mod Questions
