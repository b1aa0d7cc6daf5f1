pub mod Decided
pub mod Exists
