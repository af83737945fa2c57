-- A run that goes on: its definition, in the order of document 02, c), and what is stated of it.
pub mod Continuation
pub mod LeadingContinued
pub mod Examples
