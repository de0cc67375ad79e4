pub mod Cycles
pub mod Faults
pub mod OnModel
pub mod OneFault
pub mod OneMeaning
pub mod Sound
pub mod Texts
