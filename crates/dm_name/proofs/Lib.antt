pub mod LawLemmas
pub mod RunLemmas
pub mod PlainLemmas
pub mod TextLemmas
