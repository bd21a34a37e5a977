mod MeaningsBack
pub mod Amounts
pub mod Parts
pub mod Passing
pub mod Pairs
pub mod Reading
