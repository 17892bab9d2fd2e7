mod RequestLines
mod ManyLines
mod Heads
mod Lengths
mod Hearing
