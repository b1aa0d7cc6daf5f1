pub mod SetObject
pub mod History
pub mod Counts
pub mod Joined
