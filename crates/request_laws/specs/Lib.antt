pub mod Answered
pub mod Starts
