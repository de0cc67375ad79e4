pub mod Halting
pub mod Verifying
