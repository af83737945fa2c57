-- Laws of the definitions of specs/, one subject a file.
pub mod Whole
pub mod Newton
pub mod Longer
pub mod NoTie
pub mod Closest
pub mod Meets
pub mod Unique
pub mod Positive
pub mod Special
pub mod Answer
