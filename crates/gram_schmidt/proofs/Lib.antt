-- Laws of the definitions of specs/, one subject a file.
pub mod Loops
pub mod Directions
pub mod Finished
pub mod Collapse
pub mod Degenerate
pub mod Underflow
