-- What the contracts cite: a step called alone with its tests, and the code's stages; and examples.
pub mod Tests
pub mod Step
pub mod Stages
pub mod Marked
