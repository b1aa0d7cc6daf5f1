pub mod CodeMatrix
pub mod Listed
pub mod Names
pub mod SmallMatroids
