pub mod Numbers
pub mod Texts
pub mod Rowing
pub mod Splitting
pub mod Decoding
pub mod Reading
