-- The theorems on the definitions of specs/ (Order, Range, OrderedCopy), and what the proofs cite.
pub mod Validation
pub mod Loops
pub mod Order
pub mod Sums
pub mod Range
pub mod OrderedCopy
