-- What the contract below a going on cites. A reader may skip it: going on is in crates continuation and calls.
pub mod Resume
