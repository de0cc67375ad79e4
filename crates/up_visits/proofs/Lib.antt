pub mod Acting
pub mod Entering
pub mod Leaving
pub mod OthersEvents
