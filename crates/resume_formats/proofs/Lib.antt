pub mod FrontLemmas
pub mod HeadLemmas
pub mod WholeHeads
pub mod FaultLemmas
pub mod LevelTexts
pub mod WholeSizes
