pub mod Crossing
pub mod FreeRuns
pub mod Spreading
pub mod Visited
