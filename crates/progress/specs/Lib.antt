-- What the contracts of a run under way cite. A reader may skip it: the run and what is stated of it are in crate benettin.
pub mod UnderWay
