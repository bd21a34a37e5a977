pub mod Ranges
pub mod Numbering
