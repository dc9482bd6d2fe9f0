pub mod Ends
pub mod Inequalities
pub mod Plane
pub mod Roots
pub mod Searches
pub mod Steps
pub mod Ticks
