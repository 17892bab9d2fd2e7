pub mod CutLemmas
pub mod DigitLemmas
pub mod ReadLemmas
pub mod AnyLemmas
pub mod OneLemmas
