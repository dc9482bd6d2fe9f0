pub mod Cycles
pub mod Held
pub mod Outcomes
