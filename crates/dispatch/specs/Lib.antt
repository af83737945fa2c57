-- What the contracts of the calls cite beside crate dispatching; then what those of the parts of a turn do.
pub mod Replies
pub mod Turns
