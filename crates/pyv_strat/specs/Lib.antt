pub mod Edges
pub mod Refusal
pub mod Walks
