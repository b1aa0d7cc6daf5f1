pub mod Started
pub mod Counted
