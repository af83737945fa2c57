-- What the contracts cite, what the standard asks and what is proved of it, and document 01's marked examples.
pub mod SquareRoot
pub mod OneRoot
pub mod Marked
