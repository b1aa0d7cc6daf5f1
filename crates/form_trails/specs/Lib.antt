pub mod Least
pub mod Numbers
pub mod Pivot
pub mod Trail
