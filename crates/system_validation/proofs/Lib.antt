-- Laws, one subject a file.
pub mod Tests
