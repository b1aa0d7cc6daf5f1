pub mod Question
pub mod Answer
pub mod Places
pub mod Status
