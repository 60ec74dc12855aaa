-- The rounds on the slices.
pub mod After
pub mod Rounding
