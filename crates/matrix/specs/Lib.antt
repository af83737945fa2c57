-- What the contracts cite, the product and how the code holds a matrix; and an example.
pub mod Matrix
pub mod Examples
