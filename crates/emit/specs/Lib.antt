-- The end of presolve: the fates of rows, and what the writers leave.
pub mod Sorted
pub mod Fates
pub mod FateNumbers
pub mod Filling
pub mod Same
pub mod Spans
pub mod Slots
pub mod Terms
pub mod Shown
pub mod Judging
