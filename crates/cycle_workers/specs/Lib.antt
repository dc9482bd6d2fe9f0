pub mod Eligible
pub mod Firsts
pub mod Hits
pub mod Members
pub mod Movers
pub mod Nets
pub mod Settings
