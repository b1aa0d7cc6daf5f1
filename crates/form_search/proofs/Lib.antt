pub mod Finish
pub mod FormsSuffice
pub mod Found
pub mod Full
pub mod Placing
pub mod Rows
pub mod Starts
