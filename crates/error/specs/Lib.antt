-- What the contracts cite, and examples.
pub mod Refusal
pub mod Tests
pub mod Examples
