pub mod Numbers
pub mod InNumbers
pub mod Tables
pub mod Spelling
pub mod Faults
pub mod Bits
pub mod FirstFault
pub mod Reading
