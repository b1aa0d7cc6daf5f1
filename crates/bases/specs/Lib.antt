pub mod BaseLists
pub mod FactorColumns
