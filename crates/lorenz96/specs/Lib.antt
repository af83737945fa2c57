-- What the contracts cite: the ring and an example; then how the code holds a cell.
pub mod Ring
pub mod Examples
pub mod Around
