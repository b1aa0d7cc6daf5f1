pub mod Keys
pub mod Offered
pub mod Parts
pub mod Store
pub mod Seats
