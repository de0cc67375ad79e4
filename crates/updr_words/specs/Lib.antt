pub mod Forms
pub mod Jobs
