pub mod Admissible
pub mod Planes
pub mod Steps
