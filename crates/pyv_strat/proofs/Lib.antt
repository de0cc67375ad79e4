pub mod EdgeLemmas
pub mod FormulaLemmas
pub mod WalkLemmas
pub mod LayerLemmas
pub mod NumberLemmas
pub mod CycleLemmas
pub mod StartLemmas
pub mod GraphLemmas
