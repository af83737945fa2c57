-- What the contracts of the whole run cite, and runs by computation. The run and what is stated of it are in crate benettin.
pub mod Estimates
pub mod Examples
