pub mod Making
pub mod Seats
pub mod Sound
pub mod Telling
