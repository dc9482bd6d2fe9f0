pub mod Ends
pub mod Lines
pub mod Lists
pub mod Read
pub mod Told
pub mod Under
