mod Answers
pub mod Images
pub mod Embeddings
pub mod NextImage
pub mod Contracted
pub mod Covered
pub mod Reordered
pub mod SmallSets
pub mod TwinSets
