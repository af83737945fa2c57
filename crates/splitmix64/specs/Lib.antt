-- What the contracts cite, what is proved of the draw, and document 01's marked examples.
pub mod Mix
pub mod ExactDraw
pub mod Marked
