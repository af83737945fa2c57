-- Laws that the proofs of the functions cite.
pub mod Windows
pub mod HandedIn
pub mod Turns
