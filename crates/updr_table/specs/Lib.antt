pub mod Commands
pub mod Outside
pub mod Rows
pub mod Stages
pub mod Table
