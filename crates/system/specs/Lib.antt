-- What the contracts cite: the systems, vectors in the code's arrays, and examples; then what evaluating a system asks for.
pub mod System
pub mod Array
pub mod Examples
pub mod Evaluation
