pub mod Cuts
pub mod Fronts
pub mod Lexing
pub mod Pieces
pub mod Signs
