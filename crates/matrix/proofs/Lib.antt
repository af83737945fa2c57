-- Laws, one subject a file.
pub mod Times
pub mod Transposition
