-- The table of refusals as code has it: what the code's values are in the definition, laws of its loops and rows, and what an accepted call is.
pub mod Number
pub mod Of
pub mod Laws
pub mod Rows
pub mod Table
pub mod Accepted
