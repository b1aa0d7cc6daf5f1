pub mod Codes
pub mod Groups
pub mod States
pub mod Steps
