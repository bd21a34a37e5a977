pub mod Steps
pub mod Placing
pub mod Numbering
pub mod Tables
pub mod TakingUp
pub mod Selling
pub mod Comparing
