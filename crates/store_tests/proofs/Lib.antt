pub mod Calls
pub mod PutBack
