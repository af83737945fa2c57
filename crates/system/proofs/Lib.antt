-- Laws, one subject a file.
pub mod Padding
pub mod Front
pub mod Cases
