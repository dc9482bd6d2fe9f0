pub mod Limits
pub mod Ranges
pub mod Nets
pub mod Looks
