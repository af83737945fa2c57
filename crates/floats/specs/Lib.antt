-- What the contracts cite, and examples.
pub mod Arithmetic
pub mod Finite
pub mod Magnitude
pub mod TotalOrder
pub mod Vector
pub mod Examples
