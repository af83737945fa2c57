-- Laws, one subject a file.
pub mod Exact
pub mod Range
pub mod Product
