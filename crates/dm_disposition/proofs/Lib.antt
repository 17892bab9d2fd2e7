pub mod ClassLemmas
pub mod SpellLemmas
pub mod SoundLemmas
pub mod RunLemmas
pub mod FieldLemmas
pub mod NameLemmas
pub mod Telling
pub mod TextLemmas
