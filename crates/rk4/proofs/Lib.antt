-- Laws, one subject a file.
pub mod Held
pub mod Advance
pub mod Directions
pub mod Copy
pub mod Tests
