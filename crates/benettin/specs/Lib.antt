-- The definition of a run, in the order of document 01, and what is stated of it.
pub mod Run
pub mod Estimate
pub mod Outputs
pub mod Refusals
pub mod EqualSteps
pub mod LeadingSpectrum
pub mod LeadingOutputs
pub mod Examples
pub mod Validation
