-- Laws that the proofs of the functions cite, one subject a file. Crate progress cites Lists, and store Ending.
pub mod Lists
pub mod Rows
pub mod Ending
