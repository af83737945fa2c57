-- What the contracts cite, what is proved of the dimension, and document 01's marked examples.
pub mod Sorting
pub mod Dimension
pub mod Entropy
pub mod Rates
pub mod OrderedCopy
pub mod Range
pub mod Marked
