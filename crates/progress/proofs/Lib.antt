-- Laws that the proofs of the functions cite, one subject a file. Crates course, estimator and dispatch cite Bounds.
pub mod Bounds
pub mod Basis
pub mod Draws
pub mod Steps
pub mod Windows
