pub mod LeftOut
pub mod SideLemmas
pub mod SplitLemmas
