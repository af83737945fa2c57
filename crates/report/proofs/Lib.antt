-- The laws that the functions' proofs cite, one subject a file.
pub mod Decoding
pub mod Lines
pub mod Texts
