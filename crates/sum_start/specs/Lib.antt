-- What is stated of the start of sums.
pub mod SumStart
