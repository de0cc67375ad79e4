pub mod KnownLemmas
pub mod LightTrials
pub mod ListLemmas
pub mod NamingLemmas
pub mod BuildingLemmas
pub mod WorldLemmas
pub mod OneAnswer
pub mod SearchLemmas
