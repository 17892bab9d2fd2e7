mod Numerals
mod Finding
mod Inserted
mod Ascii
mod Targets
mod Bodies
mod Rows
