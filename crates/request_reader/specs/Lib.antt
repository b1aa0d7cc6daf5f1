pub mod Filters
pub mod Limits
pub mod Requested
pub mod Wrongs
pub mod Values
pub mod Samples
