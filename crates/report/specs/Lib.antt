-- What the contracts cite.
pub mod Bytes
pub mod Digits
pub mod Report
pub mod Marked
