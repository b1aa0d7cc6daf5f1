pub mod Search
pub mod Start
