pub mod Limits
pub mod Bids
