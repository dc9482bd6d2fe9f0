pub mod Active
pub mod Apw
pub mod Bounds
pub mod Infringements
