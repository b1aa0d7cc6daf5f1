pub mod Compared
pub mod Grown
pub mod Started
