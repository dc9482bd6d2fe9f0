pub mod Histories
pub mod Words
pub mod Seats
pub mod OneHistory
pub mod Steps
