pub mod Lots
pub mod Nest
pub mod Sets
pub mod Places
pub mod Examples
pub mod Masks
pub mod SetsLemmas
pub mod Runs
