-- Laws, one subject a file.
pub mod Plain
pub mod Vectors
pub mod Basis
pub mod Motion
pub mod Runs
