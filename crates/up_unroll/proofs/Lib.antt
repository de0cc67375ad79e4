pub mod OneRun
pub mod RunLemmas
