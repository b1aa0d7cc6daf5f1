pub mod Tables
pub mod Sought
pub mod Filled
pub mod Kept
pub mod Completions
