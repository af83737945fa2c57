-- What lent memory holds of a dispatcher.
pub mod Schedule
pub mod Promises
pub mod Examples
