-- Laws of the definitions of specs/, one subject a file.
pub mod Bounds
pub mod Tags
pub mod Laid
pub mod Found
pub mod LaidBeside
pub mod Writes
pub mod Memory
