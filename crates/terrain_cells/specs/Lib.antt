pub mod Axes
pub mod Cells
pub mod Msaw
pub mod Stays
pub mod TooLow
pub mod Walks
