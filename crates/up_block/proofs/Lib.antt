pub mod DiagramSorted
pub mod OneBlock
pub mod Passed
pub mod Questioned
pub mod Reducing
pub mod WithoutSorted
