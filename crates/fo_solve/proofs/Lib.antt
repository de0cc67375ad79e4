pub mod Crossing
mod Lemmas
mod NextLemmas
mod Switching
