-- What the contracts cite, the tests in blocks; and examples.
pub mod Tests
pub mod Examples
