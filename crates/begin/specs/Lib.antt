-- The start of presolve on the slices: bounds that cross, rounding, the rows of each variable, reading rows.
pub mod Crossing
pub mod Rounding
pub mod Reading
pub mod Totals
pub mod AtWork
pub mod Passes
pub mod Counting
pub mod Placing
pub mod Start
