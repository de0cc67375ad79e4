pub mod Cutting
pub mod Fault
pub mod Spelling
