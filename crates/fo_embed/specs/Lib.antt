pub mod Asked
pub mod Compared
pub mod Placing
pub mod Searching
