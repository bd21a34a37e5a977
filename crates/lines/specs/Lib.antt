pub mod Kinds
pub mod Rows
pub mod Reader
pub mod Split
pub mod Decode
pub mod Whole
