-- Laws of the definitions of specs/, one subject a file.
pub mod Turn
pub mod HandIn
pub mod Names
pub mod Queues
pub mod Traces
pub mod Alone
pub mod Unfinished
pub mod Fair
pub mod Windows
