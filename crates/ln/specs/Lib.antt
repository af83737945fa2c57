-- What the contracts cite, what is proved of the split, and document 01's marked examples.
pub mod Logarithm
pub mod OneSplit
pub mod Marked
