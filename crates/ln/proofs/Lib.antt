-- Laws of the definitions of specs/, one subject a file.
pub mod Normal
pub mod Split
pub mod SplitUnique
