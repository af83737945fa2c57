-- What the contracts of the loops cite. A reader may skip it: the run and what is stated of it are in crate benettin.
pub mod Course
