pub mod Begun
pub mod Covering
pub mod Decoded
pub mod OwnForms
pub mod Owned
pub mod Standards
