-- Laws of the definitions of specs/, one subject a file.
pub mod Compose
pub mod GoingOn
pub mod LeadingContinued
