pub mod Clauses
pub mod Soundness
pub mod Loops
