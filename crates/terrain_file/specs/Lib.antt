pub mod Ranges
pub mod Terrain
