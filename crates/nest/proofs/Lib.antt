pub mod Placing
pub mod Upward
pub mod Reading
mod Chaining
mod Turning
mod Downward
mod Summing
