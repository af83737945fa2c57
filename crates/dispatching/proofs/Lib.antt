-- Laws of the definitions of specs/, one subject a file.
pub mod Going
pub mod Memory
pub mod Agreement
pub mod Dispatched
