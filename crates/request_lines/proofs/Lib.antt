pub mod Cuts
pub mod FirstLine
pub mod Spellings
pub mod FieldLines
pub mod MatrixLines
