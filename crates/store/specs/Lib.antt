-- What lent memory holds.
pub mod Slots
pub mod Examples
pub mod Promises
pub mod Beside
