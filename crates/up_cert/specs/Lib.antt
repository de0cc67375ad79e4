pub mod Asked
pub mod Clauses
pub mod Judging
pub mod Spots
pub mod Trying
pub mod VerdictSpots
