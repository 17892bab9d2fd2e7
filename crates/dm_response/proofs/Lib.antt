mod NoFloats
mod Rows
