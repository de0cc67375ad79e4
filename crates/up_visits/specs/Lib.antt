pub mod GivingUp
pub mod Passes
pub mod Visits
