-- The calls over a store, in the order of document 02, c), what is stated of them, and what each leaves in memory.
pub mod Calls
pub mod Agreement
pub mod Served
pub mod Examples
