pub mod Read
pub mod Usable
