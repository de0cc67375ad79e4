pub mod Arranged
pub mod Blocks
pub mod Entries
pub mod FormWeight
pub mod Universe
pub mod Weighable
