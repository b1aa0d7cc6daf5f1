pub mod Versions
pub mod Spellings
pub mod Matrices
pub mod Said
