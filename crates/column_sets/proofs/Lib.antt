pub mod Complements
pub mod Counted
pub mod SetLemmas
pub mod PickedColumns
