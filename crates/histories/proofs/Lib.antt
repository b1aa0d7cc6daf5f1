pub mod Beginnings
pub mod Keys
pub mod News
pub mod Once
pub mod Joining
pub mod Tally
