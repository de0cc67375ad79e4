pub mod Extended
pub mod Forms
pub mod Skolem
