-- Laws, one subject a file.
pub mod Entrywise
pub mod Moves
pub mod FourStages
