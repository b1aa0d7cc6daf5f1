pub mod ColumnLists
pub mod GivenBases
pub mod Decimals
pub mod Spelt
