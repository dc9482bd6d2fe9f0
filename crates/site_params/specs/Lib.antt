pub mod Parts
pub mod Confirms
pub mod Sets
pub mod Regions
pub mod Volumes
pub mod Funnels
pub mod Fields
pub mod Site
