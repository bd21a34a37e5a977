pub mod Awarding
pub mod Listing
pub mod Paying
pub mod Reporting
pub mod Texts
pub mod Yielding
