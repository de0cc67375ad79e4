pub mod Accepting
pub mod Bodies
pub mod Each
pub mod Edges
pub mod Lexed
pub mod Mirror
