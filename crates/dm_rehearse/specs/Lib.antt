pub mod Picking
pub mod Counting
pub mod Lines
pub mod Rehearsal
