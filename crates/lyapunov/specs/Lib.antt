-- Demand 3 of calls from C, and document 01's marked examples of all crates.
pub mod LeadingOutputs
pub mod Marked
