pub mod Picked
pub mod Sets
