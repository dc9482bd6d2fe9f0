pub mod Each
pub mod EntrySteps
pub mod Units
pub mod Positions
