-- The dispatcher, in the order of document 02, f), and what is stated of it.
pub mod Turn
pub mod Dispatcher
pub mod Alone
pub mod Queue
pub mod Examples
