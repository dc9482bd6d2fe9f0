pub mod Events
pub mod Figures
pub mod Held
pub mod Merge
pub mod States
pub mod Steps
pub mod Subjects
