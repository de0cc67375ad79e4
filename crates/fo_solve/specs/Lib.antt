pub mod Answering
pub mod Contexts
pub mod Solving
