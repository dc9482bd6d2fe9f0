pub mod Tables
pub mod Readings
pub mod Bodies
pub mod Usable
