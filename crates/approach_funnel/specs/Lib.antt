pub mod Apm
pub mod Approaches
pub mod Courses
pub mod Deviations
pub mod Firsts
pub mod Lines
