-- What the contracts cite, what a collapse means, and document 01's marked examples.
pub mod Orthonormalise
pub mod GramSchmidt
pub mod Collapse
pub mod Underflow
pub mod Marked
