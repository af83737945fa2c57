-- What the contracts cite: a run as the code holds it, and its end. A reader may skip it: the run and what is stated of it are in crate benettin.
pub mod Progress
pub mod Ending
