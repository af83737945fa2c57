-- Laws that several crates cite, one subject a file.
pub mod Zero
pub mod Sign
pub mod Finite
pub mod Rank
pub mod Units
pub mod Rounding
pub mod Pattern
pub mod OneForm
pub mod Ordinary
pub mod Sets
pub mod Parts
pub mod Updated
pub mod Fill
pub mod Vector
pub mod Magnitude
