pub mod Asked
pub mod Children
pub mod Forbidden
pub mod Grown
pub mod Keys
pub mod Known
pub mod Listed
