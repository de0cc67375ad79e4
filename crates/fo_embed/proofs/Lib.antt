pub mod Begun
pub mod Comparing
pub mod Ordered
pub mod Placed
pub mod Putting
pub mod Sizes
pub mod Universals
pub mod Walking
