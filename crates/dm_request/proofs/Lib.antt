pub mod Texts
pub mod ReadingLemmas
pub mod Requests
