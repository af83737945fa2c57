-- What the contracts cite: steppers with the classical one, and what a lent derivative computes; and examples.
pub mod Stepper
pub mod Stages
pub mod Examples
