-- Implied bounds on the slices.
pub mod Sides
pub mod Loop
