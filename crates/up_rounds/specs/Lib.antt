pub mod Asking
pub mod Coming
pub mod Courses
pub mod Crew
pub mod Going
pub mod OneRound
pub mod Settling
pub mod Taking
