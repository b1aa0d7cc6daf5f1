pub mod Codes
pub mod Packing
pub mod Keys
