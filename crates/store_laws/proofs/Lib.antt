pub mod Told
pub mod Offered
