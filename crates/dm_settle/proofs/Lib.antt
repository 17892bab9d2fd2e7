pub mod All
pub mod Finished
pub mod Frames
pub mod Items
pub mod Judgements
pub mod Lists
pub mod Recorded
pub mod Verdicts
