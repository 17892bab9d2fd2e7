pub mod Judging
pub mod Moving
pub mod Settled
