pub mod Reporting
pub mod Solving
