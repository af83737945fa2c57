-- Laws of the definitions of specs/, one subject a file.
pub mod Stands
pub mod Own
pub mod TagList
pub mod Distinct
pub mod Counting
pub mod Agreement
pub mod Runs
