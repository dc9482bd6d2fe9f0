pub mod Framing
pub mod InNumbers
pub mod Held
pub mod Spelling
pub mod Cutting
