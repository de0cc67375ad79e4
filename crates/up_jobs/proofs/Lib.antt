pub mod Briefs
pub mod Events
pub mod Givens
pub mod OneAnswer
pub mod Searches
pub mod Unrollings
