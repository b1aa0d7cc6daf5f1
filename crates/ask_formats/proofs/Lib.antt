pub mod Parted
pub mod Letters
pub mod Readings
pub mod Asked
pub mod OneLine
