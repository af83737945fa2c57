-- What the contracts cite, of these functions and of the exported ones.
pub mod Interface
pub mod Options
