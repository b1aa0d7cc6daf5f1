pub mod Pairs
pub mod Columns
pub mod Order
pub mod Built
pub mod LevelKeys
