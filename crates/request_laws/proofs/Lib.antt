pub mod Minors
pub mod Listings
pub mod Said
pub mod Walks
pub mod Texts
pub mod Examples
pub mod Starts
