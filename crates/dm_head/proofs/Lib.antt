pub mod FieldLemmas
pub mod FramingLemmas
pub mod HeadLemmas
pub mod LineLemmas
pub mod ManyLines
pub mod Outcomes
pub mod PartLemmas
pub mod PassLemmas
