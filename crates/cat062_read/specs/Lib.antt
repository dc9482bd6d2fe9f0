pub mod Tracks
pub mod Contents
pub mod ContentsInNumbers
pub mod TableInNumbers
pub mod Records
