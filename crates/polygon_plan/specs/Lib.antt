pub mod Inside
pub mod Ranges
pub mod Sides
