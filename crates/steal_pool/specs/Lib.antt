pub mod Ring
pub mod SeatViews
pub mod Shift
pub mod Rows
pub mod Pool
pub mod Back
pub mod Taken
