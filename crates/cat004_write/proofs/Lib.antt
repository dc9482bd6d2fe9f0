pub mod Groups
pub mod Packings
