-- The calls over lent memory, and what is stated of them.
pub mod Served
pub mod Dispatched
