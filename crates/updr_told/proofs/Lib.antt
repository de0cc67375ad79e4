pub mod Prefixes
pub mod Walking
