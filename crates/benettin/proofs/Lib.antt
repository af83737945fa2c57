-- Laws of the definitions of specs/, one subject a file.
pub mod Prefix
pub mod Simulation
pub mod EqualSteps
pub mod LeadingSpectrum
pub mod RunTests
pub mod Either
pub mod Sizes
pub mod Reading
pub mod Refusals
pub mod LeadingOutputs
pub mod Made
