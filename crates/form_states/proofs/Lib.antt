pub mod Left
pub mod GroupSteps
pub mod Marks
pub mod Moves
pub mod Normalised
pub mod Shapes
pub mod Powers
