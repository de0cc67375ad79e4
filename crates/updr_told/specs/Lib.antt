pub mod Ends
pub mod Places
pub mod Statuses
pub mod Stops
pub mod Telling
