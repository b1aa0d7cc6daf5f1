pub mod Uses
pub mod Walked
pub mod Texts
pub mod Whole
pub mod Pieces
pub mod Readings
pub mod AskedTexts
