pub mod Bytes
pub mod Calls
pub mod Faults
pub mod Memory
pub mod Names
pub mod Opened
pub mod Texts
