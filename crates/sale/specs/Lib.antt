pub mod Refusals
pub mod Holds
pub mod Questions
pub mod Loaded
pub mod Awards
pub mod Compared
