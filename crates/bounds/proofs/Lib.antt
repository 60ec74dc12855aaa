-- The rows of a variable, as the loop over them has them.
pub mod Rows
