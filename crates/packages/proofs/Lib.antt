pub mod Nests
pub mod Places
pub mod Containers
