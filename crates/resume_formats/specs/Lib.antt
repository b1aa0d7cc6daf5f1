pub mod Fronts
pub mod Cut
pub mod Heads
pub mod Fault
pub mod Resumed
pub mod Status
